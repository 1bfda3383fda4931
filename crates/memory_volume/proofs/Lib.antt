mod Moments
mod Walks
