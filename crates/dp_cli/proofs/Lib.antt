mod Endings
mod Entering
mod Sums
