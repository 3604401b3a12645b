mod Making
mod Telling
mod DroppingRows
mod Finding
