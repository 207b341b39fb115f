mod AllIn
