pub mod EnvelopeSums
pub mod NextTicks
pub mod RoundedUp
pub mod Skipping
pub mod Longer
pub mod StraightLine
pub mod Mirrors
pub mod OneEnvelope
