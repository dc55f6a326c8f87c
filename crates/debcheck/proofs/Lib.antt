mod BackgroundLemmas
mod OneReport
mod PhaseLemmas
mod ProgramLemmas
mod RunLemmas
mod TellLemmas
