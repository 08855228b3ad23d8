mod Firsts
mod Looks
mod Slottings
mod Copies
