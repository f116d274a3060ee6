-- Closed cases of the exact point, and the exact point in the rational numbers.
pub mod Controls
pub mod Homomorphism
pub mod ExactLaws
pub mod SpanLaws
pub mod HullLaws
pub mod DomainLaws
