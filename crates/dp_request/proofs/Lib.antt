mod Numbers
mod Stops
