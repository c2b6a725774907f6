mod Promise
mod LinesLaws
mod PadCosts
mod Changes
mod Ranks
mod Candidate
