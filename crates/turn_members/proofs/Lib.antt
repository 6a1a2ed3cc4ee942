mod Own
mod Rulings
mod Records
mod Lives
mod Begins
