pub mod Plots
pub mod Woods
