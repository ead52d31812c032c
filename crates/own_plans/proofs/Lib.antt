mod LikeMembers
mod LeafLemmas
mod OwnLemmas
