pub mod PendingParts
