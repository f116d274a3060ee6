-- Laws of the joined curve against the check and the exact curve.
mod OrderLaws
mod RepeatLaws
mod PassesLaws
mod ThirdLaws
mod HermiteLaws
mod JoinedLaws
mod TwiceLaws
mod MeetsLaws
pub mod EitherLaws
mod Controls
