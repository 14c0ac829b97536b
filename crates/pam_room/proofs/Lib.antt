mod ModelledObjectFacts
mod Notes
mod ModuleRunFacts
mod Prompts
mod SetDataFacts
mod Parts
mod SameFilesFacts
