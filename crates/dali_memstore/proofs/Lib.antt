mod Results
mod Mix
mod Images
mod Copies
mod Crashes
mod Events
