-- What the contracts speak of: a whole Toolbox and its state, its screen and the map in front, steps of any manager's calls,
-- runs of steps, what holds of each state that a run reaches, and what a call writes on the screen at the most.
pub mod EventSteps
pub mod ToolboxStates
pub mod KnownLayers
pub mod TextsLeft
pub mod Fronts
pub mod FrontMaps
pub mod WholeToolbox
pub mod Run
pub mod Classes
pub mod Reached
pub mod Activations
pub mod Economy
pub mod EconomicalRuns
pub mod Boxed
