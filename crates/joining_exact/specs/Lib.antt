-- The Hermite cubic between spline points, and what is promised of the joined curve.
pub mod HermitePoint
pub mod JoinedCurve
