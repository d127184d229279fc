pub mod PlannedSegments
