pub mod BlendedStates
