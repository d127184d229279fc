pub mod RampSums
pub mod PartSums
pub mod AreaIsSum
pub mod EnvelopeAreas
pub mod UpperSplits
