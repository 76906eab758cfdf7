mod Chained
mod Collisions
mod Counted
mod Firsts
mod InOrder
mod Judgements
mod Leads
mod Marking
