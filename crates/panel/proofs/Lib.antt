pub mod Exact
pub mod Plotting
