mod LineFacts
mod LineLemmas
mod OptionLemmas
