mod Exact
mod Listing
mod Named
