use Rattle.motion.proofs.PassedRanges.{moving-ranges}
use Rattle.motion.proofs.destination.Goals as goal

pub twice_position_at-requires-clause-state_ranges : goal.twice_position_at-requires-clause-state_ranges
twice_position_at-requires-clause-state_ranges c =
    moving-ranges c.requires.passed c.requires.n_le_last_tick c.as_moving.ensures
