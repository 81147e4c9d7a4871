-- What the contracts speak of: the hollow window, the strip of a menu, the ring of a control and the gauge of a list as plain data.
pub mod HollowWindows
pub mod Strips
pub mod Rings
pub mod Gauges
