-- Lemmas on walks and their runs, on the boxes of regions, and on the spans that a cut has.
pub mod Opened
pub mod InPlace
pub mod Held
pub mod OneScan
pub mod WalkRuns
pub mod WalkScan
pub mod FullSpans
pub mod SeenSteady
pub mod PartSteps
pub mod WalkSteps
pub mod KeptRuns
pub mod CutLayers
pub mod Scanned
pub mod Boxes
pub mod TurningRows
pub mod UnitedBoxes
