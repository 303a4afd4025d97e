mod TextLemmas
mod ToldLemmas
