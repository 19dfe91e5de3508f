mod Finished
mod Widened
