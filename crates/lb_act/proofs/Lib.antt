mod Lists
mod Found
mod Declaring
