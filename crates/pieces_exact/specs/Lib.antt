-- The Bezier curve of a piece, and what is promised of the pieces of a curve.
pub mod BezierPoint
pub mod PieceCurve
