mod Ranges
