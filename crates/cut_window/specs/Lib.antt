-- What stands round a span as far as which a curve is cut.
pub mod Window
