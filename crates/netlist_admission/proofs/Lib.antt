mod StandsFor
mod GateCauses
mod Outcomes
