mod WriteLemmas
