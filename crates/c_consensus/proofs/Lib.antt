mod Rows
mod Read
mod Written
mod Both
mod Consensus
mod Single
mod Arms
mod Limit
