pub mod TitledWindows
