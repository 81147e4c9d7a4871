-- Lemmas on what frames that are told and drawn leave as it is, on the steps of their calls, and the law that these keep a
-- right state right.
pub mod ToldSteps
pub mod FrameKeeps
pub mod FrameLaws
pub mod FrameSteps
pub mod Informing
pub mod FramesShowing
pub mod Repainting
pub mod Relighting
pub mod Economical
pub mod SparedPixels
