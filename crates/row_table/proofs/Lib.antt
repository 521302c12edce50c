mod Changes
mod Sought
