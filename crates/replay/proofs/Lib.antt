mod Causes
mod Patterns
mod Sames
mod Lefts
mod Founds
mod Examples
