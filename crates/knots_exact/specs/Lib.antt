-- Two curves that are the same exact curve.
pub mod SameCurve
