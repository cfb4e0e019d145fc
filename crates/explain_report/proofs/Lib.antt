mod Following
mod Foretold
mod Printing
mod TextStages
