mod UserLookupFacts
mod Shells
mod Nologin
mod Securetty
mod Wheel
mod Listfile
mod Listdeny
