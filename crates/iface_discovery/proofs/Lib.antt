mod ArpRules
mod NeighborMessages
mod RouterSolicitations
