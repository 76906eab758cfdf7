pub mod Adding
mod Finding
mod Following
mod Listing
mod Numbers
mod Versions
