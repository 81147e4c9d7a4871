-- What the contracts speak of: events, what is told of the active window, the queue, and rows of steps that tell them.
pub mod Events
pub mod Telling
pub mod Queues
pub mod History
