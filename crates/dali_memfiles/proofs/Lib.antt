mod Walks
mod Results
mod Shelves
mod Keys
mod Crashes
mod Events
