-- B-spline curves over any arithmetic: the basis, the curve from it, de Boor's triangle, inserting a knot, Bezier curves and cubics;
-- over an ordered field, what is asked of knots and parameter.
pub mod Basis
pub mod Triangle
pub mod Span
pub mod Insertion
pub mod Bezier
