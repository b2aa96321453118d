mod Averages
