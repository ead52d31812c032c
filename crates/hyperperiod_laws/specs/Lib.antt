pub mod Hyperperiods
