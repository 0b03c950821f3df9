mod Appending
mod Agree
mod Inputs
mod Next
mod Places
mod Printed
mod Found
mod Said
