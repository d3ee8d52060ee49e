pub mod Shown
pub mod Plots
