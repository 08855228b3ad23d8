mod Means
mod Lists
mod Trees
mod Numbers
mod Scans
mod Readers
mod Shown
