-- What the contracts speak of: why a call about a frame refuses, what it does, and whose definitions are told after a call on
-- windows.
pub mod FrameRefusals
pub mod Followers
pub mod FrameSteps
pub mod Economy
