mod Bytes
mod Canonical
mod Firsts
mod Names
mod Noting
mod Parts
mod Reading
mod Sayings
