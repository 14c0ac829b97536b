pub mod NodeRowFacts
