mod IdleSockets
mod PassedSockets
mod PayloadRules
mod SocketTurns
mod UdpDelivery
