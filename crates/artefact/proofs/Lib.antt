mod Puts
mod Tables
mod Artefacts
mod Pages
