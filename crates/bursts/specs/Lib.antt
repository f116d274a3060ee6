-- Bursts fed one after the other, and the end behind them.
pub mod Bursts
